pub mod StageFieldLaws

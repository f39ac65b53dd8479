pub mod TapFieldLaws

-- The size of a picture, definitions only.
pub mod PictureSize

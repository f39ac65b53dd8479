pub mod PictureSizeLaws

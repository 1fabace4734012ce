pub mod Escapes
pub mod PictureText
pub mod Views
pub mod Laws

pub mod Unsure
pub mod Previews
pub mod Lines
pub mod WordTexts
pub mod Holes
pub mod Inside
pub mod Sending
pub mod Laws

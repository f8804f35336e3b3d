pub mod Sizes
pub mod Counting
pub mod Askings
pub mod Takings
pub mod ActCalls
pub mod ResumeLaws
pub mod OnceLaws

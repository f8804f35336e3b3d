pub mod Jobs
pub mod Hiring
pub mod Serving
pub mod Working
pub mod Ringing
pub mod Looking

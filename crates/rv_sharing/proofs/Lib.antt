pub mod OwnerLaws
pub mod ExtentLaws
pub mod TextLaws
pub mod OpenedLaws
pub mod VisibleLaws
pub mod ViewerLaws
pub mod GatheredLaws
pub mod ReadLaws

pub mod PagesRead
pub mod Fronts
pub mod Shipped
pub mod PageShipped

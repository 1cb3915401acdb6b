pub mod Books
pub mod Decimals
pub mod Forms
pub mod Growth
pub mod Numbers
pub mod PageLaws
pub mod Pages
pub mod ReadBack

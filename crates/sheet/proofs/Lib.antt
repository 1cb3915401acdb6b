pub mod Bodies
pub mod Packs
pub mod OffLayout
pub mod Packings
pub mod Ranges
pub mod Supplemented
pub mod Uncut

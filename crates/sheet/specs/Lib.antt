pub mod AddRefusals
pub mod PackedRefusals
pub mod Packing
pub mod Packs
pub mod Readings
pub mod ShortRules
pub mod Supplements

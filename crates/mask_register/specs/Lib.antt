pub mod Asks
pub mod Mask
pub mod MaskRegister
pub mod Window

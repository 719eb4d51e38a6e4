pub mod Shown
pub mod OutcomeTexts
pub mod Checking
pub mod Comings
pub mod Corollaries
pub mod Stopped
pub mod ByInput
pub mod Endings

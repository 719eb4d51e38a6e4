pub mod Table
pub mod App
pub mod Words
pub mod Law

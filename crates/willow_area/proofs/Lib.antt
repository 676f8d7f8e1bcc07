pub mod Membership
pub mod Including
pub mod Meeting
pub mod TimesReads
pub mod AreaReads
pub mod Orders
pub mod Cutting
pub mod Boxing

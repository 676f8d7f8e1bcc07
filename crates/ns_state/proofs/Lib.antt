pub mod NewRows
mod Core
mod Logs
mod Walks
mod Recent
mod AtPositions
mod Appending
mod Offers
mod Growing
mod SortedRows

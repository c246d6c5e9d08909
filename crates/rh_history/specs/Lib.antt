pub mod Change
pub mod Draft
pub mod Records
pub mod HistoryView
pub mod States
pub mod Laws

mod Granted
mod CalledBack
mod Turns
mod Choosing
mod Hearing
mod Words
mod Following
mod Coming
mod Giving
mod Taking
mod Yielding
mod Told
mod Alike
mod CallBackAlike
pub mod Calls
mod Rows
mod RowsCallBack
mod RowsCalls

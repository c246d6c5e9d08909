mod Elements
mod Alike
mod Lists
mod Searched
mod OneAnswer

mod Examples
mod Least
mod Order
mod Texts

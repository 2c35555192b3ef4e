mod Digits
mod Texts
mod Nexts

mod Others
mod Told

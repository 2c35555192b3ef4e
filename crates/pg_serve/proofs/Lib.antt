mod Sending
mod Turns

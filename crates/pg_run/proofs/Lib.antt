mod Endings
mod Games
mod Levels
mod Shapes
mod Taking
mod Winning

mod Closing
mod Commands

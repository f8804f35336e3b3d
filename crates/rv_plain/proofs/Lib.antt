mod Names
mod Replays

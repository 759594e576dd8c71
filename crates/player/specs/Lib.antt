-- Document 01, "Player and trials": the run of the player.
pub mod Played

mod Checked
mod Movers
mod OneRow
mod OneStream
mod Pieces
mod StreamsTold
mod TurnTold

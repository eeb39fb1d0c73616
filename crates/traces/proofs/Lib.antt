mod Gathering
mod Turning
mod Lowering
mod LevelByLevel
mod CallDone

mod Rows
mod Computing
mod Working
mod Runs
mod Deciding
mod Putting
mod Stopping

mod Parts
mod Fewer
mod Dropping
mod Missing
mod Walk

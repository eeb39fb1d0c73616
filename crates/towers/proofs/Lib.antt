mod Scatter
mod Extended
mod Grow

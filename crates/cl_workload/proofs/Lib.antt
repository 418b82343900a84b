mod Runtime
mod Small
mod Counting
mod Examples

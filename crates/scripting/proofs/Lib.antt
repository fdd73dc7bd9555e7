mod Pasts
mod Received

mod Parting
mod Asking

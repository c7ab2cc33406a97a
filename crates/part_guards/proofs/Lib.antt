mod Asking
mod Hooking
mod Sealing

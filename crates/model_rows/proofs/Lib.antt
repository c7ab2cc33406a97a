mod sessions
mod images
mod devices

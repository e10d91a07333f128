mod Known
mod Taking

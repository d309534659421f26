mod Accepted
mod Firstly
mod Found
mod Heard
mod Known
mod Relisted
mod Staged
mod Unanswered

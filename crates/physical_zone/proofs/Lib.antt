mod ActLaws
mod AskingLaws
mod StartLaws

mod RoomRows
mod BeginningRows

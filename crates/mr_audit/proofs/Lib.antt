-- What tallies of servers have of the vector, row by row.
pub mod Vectors
-- A test of all elements of lists that are made of rows, one behind the other.
pub mod Mapped
-- Lists of which no two elements conflict.
pub mod Apart
-- Commit numbers of notes, from one to the next in their order.
pub mod NextNumbers
-- Bookings in the order of rooms, days and starts, from one to the next.
pub mod NextBookings
-- What a search by id finds in rows that stand in the order of their ids.
pub mod SortedIds
-- Rows of several tables with different ids, from tests of two tables each.
pub mod IdsApart
-- The slots of a text of choices, word by word.
pub mod SlotTexts
-- A test that one row alone can pass: that of the id which it asks for.
pub mod OneRow
-- Notes that come before one another, and a note that is in turn with each of such rows.
pub mod NotesInTurn
-- The notes of all tables are in turn by pairs where those of each table rise, and each of a table fits among those of another.
pub mod TablesInTurn
-- All parts together.
pub mod PartsTell
-- What a binary search finds among elements whose keys rise.
pub mod Searching
-- Names of rooms that rise, as comparisons say it.
pub mod SortedNames

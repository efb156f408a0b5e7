-- Document 01: "At most 16 objects, 1 to 6 threads, 0 to 32 operations a thread, 16 messages a channel, 8 waiters a condvar." Each number once; that
-- of threads is a clock's number of places.
use Rattle.std.specs.Prelude.{ℕ, ◌+◌, ◌*◌}
use Rattle.clocks.specs.Clock.{max_threads}

abbrev pub max_objects : ℕ
max_objects = 16

abbrev pub max_operations : ℕ
max_operations = 32

-- the places for the operations of all threads
abbrev pub op_places : ℕ
op_places = max_operations * max_threads

abbrev pub max_messages : ℕ
max_messages = 16

abbrev pub max_waiters : ℕ
max_waiters = 8

-- "No complete list is longer than 97 decisions per thread."
abbrev pub max_list : ℕ
max_list = 97 * max_threads

-- the sheet's records: a thread's, and an object's longest, a channel's
abbrev pub thread_record : ℕ
thread_record = 5 + 2 * max_threads

abbrev pub channel_record : ℕ
channel_record = 2 + max_threads + max_messages * max_threads

-- "Never above 1,766 bytes."
abbrev pub max_sheet : ℕ
max_sheet = thread_record * max_threads + channel_record * max_objects

-- How contracts tie objects over the machine (files, sinks, connections) to the known bytes of the
-- system's files, writers and streams; and the contents of a door in memory (this project).
use Rattle.std.specs.Prelude.{ℕ, ◌≤◌, List, [], length, take, Option, Some, None, Result, Ok, Err}
use Rattle.std.specs.Io.KnownBytes.{Appends}
use Rattle.std.specs.declared.fd.AsRawFd as AsRawFd
use Rattle.std.specs.declared.io.traits.Read as Read
use Rattle.std.specs.declared.io.traits.Seek as Seek
use Rattle.std.specs.declared.io.traits.Write as Write
use Rattle.tide_edge.specs.declared.failed.Failed.{Failed}
use Rattle.tide_edge.specs.declared.door.of_host.HostDoor.{HostDoor}
use Rattle.tide_edge.specs.declared.door.host_line.HostLine.{HostLine}
use Rattle.tide_edge.specs.declared.files.of_host.HostFiles.{HostFiles}
use Rattle.tide_edge.specs.declared.sink.of_host.HostSink.{HostSink}
use Rattle.tide_edge.specs.declared.door.in_memory.MemoryDoor.{MemoryDoor}
use Rattle.tide_edge.specs.Memory.{HeldDoor}

-- The writer of the machine that a sink writes to.
abbrev pub writer_of : {W : Type 0} → HostSink W → W
writer_of sink = sink.writer

-- `WritesThrough before after result piece`: a write of `piece` makes a writer's contents `before`
-- grow to `after`: by as many of its first bytes as the result says, or, if the write failed, by
-- some prefix of it, since the writer may have accepted bytes that it couldn't flush. If the
-- contents before aren't known (None), this says nothing.
abbrev pub WritesThrough : Option (List ℕ) → Option (List ℕ) → Result ℕ Failed → List ℕ → Type 0
WritesThrough before after (Ok count) piece = Appends before after (take count piece)
WritesThrough before after (Err failed) piece = (count : ℕ) × (count ≤ length piece) × Appends before after (take count piece)

-- The file that is open in the machine's file system, or None if none is open.
abbrev pub file_of : {R F D : Type 0} {read : Read.Ghosts F} {write : Write.Ghosts F} {seek : Seek.Ghosts F} {directory : Read.Ghosts D}
    → HostFiles R F D read write seek directory → Option F
file_of files = files.opened

-- The unread bytes of the open file by the function `remaining` (None if they aren't known); no
-- bytes if no file is open.
abbrev pub left_of : {F : Type 0} → (F → Option (List ℕ)) → Option F → Option (List ℕ)
left_of remaining None = Some []
left_of remaining (Some file) = remaining file

-- The machine's stream that a connection reads and writes.
abbrev pub stream_of : {S : Type 0} → HostLine S → S
stream_of line = line.stream

-- The open connection of a door over the machine, or None if none is open.
abbrev pub line_of : {R S L : Type 0} {read : Read.Ghosts S} {write : Write.Ghosts S} {stream : AsRawFd.Ghosts S}
    {listener : AsRawFd.Ghosts L}
    → HostDoor R S L read write stream listener → Option (HostLine S)
line_of door = door.line

-- The bytes that the function `known` says of the stream of an open connection; None (nothing is
-- known) if no connection is open.
abbrev pub known_of : {S : Type 0} → (S → Option (List ℕ)) → Option (HostLine S) → Option (List ℕ)
known_of known None = None
known_of known (Some line) = known (stream_of line)

-- The contents of a door in memory: its requests, connections and replies.
abbrev pub held_by : MemoryDoor → HeldDoor
held_by door = door.queue

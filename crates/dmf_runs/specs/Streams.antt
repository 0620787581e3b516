-- What a run of command lines sees of its reader and its writer.
-- Public: a public contract says no more than this.
use Rattle.dmf_text.specs.Streams.{Reader, Writer}

-- a reader of command lines, and the writer of the replies
pub record Streams : Type 0 where
  pub reader : Reader
  pub writer : Writer

-- both streams
abbrev pub streams_of : Reader → Writer → Streams
streams_of reader writer = record { reader = reader; writer = writer }

use Rattle.session_laws.proofs.Streams.{one_writing, one_stream, prefixes_of_writing, prefixes_of_stream}
use Rattle.session_laws.proofs.writings_are_one.Goals as goal

pub returns : goal.returns
returns c =
    record {
      texts = one_writing;
      stream = one_stream;
      texts_prefix = prefixes_of_writing;
      stream_prefix = prefixes_of_stream;
    }

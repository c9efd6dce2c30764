use Rattle.std.proofs.Common.{◌∙◌, sym, refl, inr}
use Rattle.csv.specs.Reading.{Reached, strip_bom}
use Rattle.station_table.proofs.reading.records_of.Goals as goal

pub returns : goal.returns
unfolding Reached
returns c =
    let reader = c.from_reader.ensures in
    let flexible = c.flexible.ensures in
    let headers = c.has_headers.ensures in
    rw c.into_byte_records.ensures.rdr record {
      trim = rw (flexible, headers) at reader.trim ∙ c.new.ensures.trim;
      ready = inr (inr (rw (flexible, headers) at reader.has_headers, reader.headers));
      rows_left = c.into_byte_records.ensures.left;
      config = rw (flexible, headers) at reader.config ∙ c.new.ensures.config;
      rest = strip_bom c.args.bytes.now;
      source = reader.source;
      reached = (sym reader.state, refl);
    }

-- What a read does to the records that a reader has left.
use Rattle.std.proofs.Common.{Bor, ◌≡◌, ◌∙◌, ◌∷◌, ℕ, List, [], Bool, true, false, Some, refl, sym, ap, inl}
use Rattle.csv.specs.Machine.{ends_at_end}
use Rattle.csv.specs.Reading.{Reached, ReadRecord, default_config, is_flexible, took_first}
use Rattle.csv.specs.declared.reader.Reader.{Reader}
use Rattle.csv.proofs.ReadFacts.{rows-more, rows-end}
use Rattle.esto_stores.specs.Rows.{Row}
use Rattle.esto_stores.specs.Left.{Reads, Takes, bytes_left, left_of, records_at}
use Rattle.esto_stores.proofs.RecordLemmas.{records_none, records_some, record_takes}

left_known : (a : Reader (Bor (List ℕ))) (bytes : List ℕ) → bytes_left a ≡ Some bytes → left_of a ≡ records_at a.state bytes
unfolding left_of
left_known a bytes e = rw e refl

pub takes_some : (a b : Reader (Bor (List ℕ))) (cells : Row) → Reads a → ReadRecord (λ s. Some s.now) a b true cells
    → (left_of a ≡ cells ∷ left_of b) × (ends_at_end b.state ≡ false) × ((bytes : List ℕ) × (bytes_left b ≡ Some bytes))
unfolding Reached
takes_some a b cells reads read =
    let (y, known) = reads.known in
    let (z, after, reached) = rows-more (λ (s : Bor (List ℕ)). Some s.now) a b cells default_config a.state y y [] reads.config known (refl, refl) read in
    let (p, next, same, at) = reached in
    let t = record_takes default_config a.state y p reads.between next in
    let all = records_some default_config a.state y p reads.between next in (
      left_known a y known ∙ all ∙ rw (← same, at.0, at.1) (sym (ap (λ (l : List Row). cells ∷ l) (left_known b z after))),
      rw at.0 at t.0,
      (z, after),
    )

pub takes_none : (a b : Reader (Bor (List ℕ))) (cells : Row) → Reads a → ReadRecord (λ s. Some s.now) a b false cells → left_of a ≡ []
takes_none a b cells reads read =
    let (y, known) = reads.known in
    left_known a y known ∙ records_none default_config a.state y (rows-end (λ (s : Bor (List ℕ)). Some s.now) a b cells default_config y reads.config known
    read)

pub takes : (a b : Reader (Bor (List ℕ))) (found : Bool) (cells : Row) → Reads a → ReadRecord (λ s. Some s.now) a b found cells
    → Takes (left_of a) found cells (left_of b)
takes a b true cells reads read = (takes_some a b cells reads read).0
takes a b false cells reads read = takes_none a b cells reads read

pub reads_on : (a b : Reader (Bor (List ℕ))) (found : Bool) (cells : Row) → Reads a → ReadRecord (λ s. Some s.now) a b found cells
    → took_first b ≡ true → is_flexible b ≡ is_flexible a → found ≡ true → Reads b
reads_on a b found cells reads read first flexible one =
    let more = takes_some a b cells reads (rw one at read) in
    record {
      trim = read.3 ∙ reads.trim;
      ready = inl first;
      config = read.2 ∙ reads.config;
      flexible = flexible ∙ reads.flexible;
      between = more.1;
      known = more.2;
    }

-- What `verify` says of a query.
use Rattle.std.specs.Prelude.{◌≡◌, ◌↔◌, ℕ, ◌+◌, nat_lt, Bool, List, [], ◌∷◌, length, Option, Some, None, Contains, if◌then◌else◌, codes}
use Rattle.esto_mapping.specs.declared.catalogue.Catalogue.{Catalogue}
use Rattle.esto_cert.specs.Judging.{DecidesFor}
use Rattle.esto_course.specs.Course.{Course, judges, and_then}
use Rattle.esto_ports.specs.Files.{Files}
use Rattle.esto_query.specs.declared.query.Query.{Query}
use Rattle.esto_term.specs.Sets.{Has}
use Rattle.esto_views.specs.declared.plan.Plan.{Plan}
use Rattle.esto_status.specs.Fetch.{fetches}
use Rattle.esto_status.specs.declared.status.Status.{Status}
use Rattle.esto_status.specs.declared.status.Status.TheVariants.{NoSuchNumber, Rejected}
use Rattle.esto_rewriting.specs.Planning.{plans_query}
use Rattle.esto_status.specs.declared.limits.TheConstants.{DATA_LIMIT}

-- ---- the set

-- The first of the numbers that is above a count.
abbrev pub first_above : ℕ → List ℕ → Option ℕ
first_above count [] = None
first_above count (number ∷ numbers) = if nat_lt count number then Some number else first_above count numbers

-- No number is above the count, and of so many atoms the set has exactly those of the numbers, each counted from 1.
pub record IsSetOf (count : ℕ) (numbers : List ℕ) (set : List Bool) : Type 0 where
  pub none_above : first_above count numbers ≡ None
  pub over : length set ≡ count
  pub exact : (atom : ℕ) → Has set atom ↔ Contains numbers (atom + 1)

-- The first number is above the count, and is refused with it.
abbrev pub IsAbove : ℕ → List ℕ → Status → Type 0
IsAbove count numbers refusal = (number : ℕ) × (first_above count numbers ≡ Some number) × (refusal ≡ NoSuchNumber number count)

-- The numbers name a set of the plan's atoms, or the first of them that is above their count is refused.
abbrev pub names_set : Plan → List ℕ → Course Status (List Bool)
names_set plan numbers = judges (IsSetOf (length plan.atoms) numbers) (IsAbove (length plan.atoms) numbers)

-- ---- the certificate

-- The bytes as a certificate for the set of the plan's atoms have this verdict.
abbrev pub HasVerdict : Catalogue → Query → Plan → List Bool → List ℕ → Option ℕ → Type 0
HasVerdict catalogue query plan set bytes verdict = DecidesFor plan catalogue.fragments set catalogue.rules query bytes verdict

-- The certificate is accepted, and the text says so; or it is refused with the line at which it is rejected.
abbrev pub judges_certificate : Catalogue → Query → Plan → List Bool → List ℕ → Course Status (List ℕ)
judges_certificate catalogue query plan set bytes =
    judges (λ text. HasVerdict catalogue query plan set bytes None × (text ≡ codes "accepted\n"))
    (λ refusal. (line : ℕ) × HasVerdict catalogue query plan set bytes (Some line) × (refusal ≡ Rejected line))

-- The certificate is fetched, and judged.
abbrev pub verifies_set : Option Files → Catalogue → Query → Plan → List ℕ → List Bool → Course Status (List ℕ)
verifies_set files catalogue query plan file set =
    and_then (fetches files file DATA_LIMIT) (λ bytes. judges_certificate catalogue query plan set bytes)

-- The query has a plan, the numbers name a set of its atoms, and the certificate for the set is verified.
abbrev pub verifies_query : Option Files → List ℕ → List ℕ → Catalogue → Query → Course Status (List ℕ)
verifies_query files numbers file catalogue query =
    and_then (plans_query catalogue query) (λ plan.
    and_then (names_set plan numbers) (λ set.
    verifies_set files catalogue query plan file set))

-- The choice of a set for each member of a union.
use Rattle.std.specs.Prelude.{◌≡◌, ◌⊎◌, ℕ, ◌<◌, ◌≤◌, List, ◌++◌, ◌∷◌, [], length, filter, Option, Some, None, Contains}
use Rattle.std.specs.List.{AllZip}
use Rattle.esto_list.specs.declared.listing.Listed.{Listed}
use Rattle.esto_run.specs.declared.picks.Pick.{Pick}
use Rattle.esto_views.specs.declared.plan.Plan.{Plan}
use Rattle.esto_rewriting.specs.Members.{has_plan}
use Rattle.esto_rewriting.specs.Run.{IsChosen, IsLeastLength}
use Rattle.esto_rewriting.specs.declared.members.Member.{Member}
use Rattle.esto_rewriting.specs.declared.members.Member.TheVariants.{Planned, Clashed}

-- It is the least length of the members' lists; there is none where no member has a list.
abbrev pub IsLeast : List Member → Option ℕ → Type 0
IsLeast members None = (plan : Plan) (items : List Listed) → ¬ (Contains members (Planned plan items))
IsLeast members (Some least) = IsLeastLength members least

-- It is the lesser of a length, where there is one, and of another.
abbrev pub IsLesser : Option ℕ → ℕ → ℕ → Type 0
IsLesser None listed result = result ≡ listed
IsLesser (Some length) listed result = ((result ≡ length) × (length ≤ listed)) ⊎ ((result ≡ listed) × (listed ≤ length))

-- An item of the list can be chosen: it is not empty, and the number is not above its length.
pub record HasChoice (items : List Listed) (number : Option ℕ) : Type 0 where
  pub some : 0 < length items
  pub within : (asked : ℕ) → number ≡ Some asked → asked ≤ length items

-- So it is for each member that has a list.
abbrev pub HaveChoice : List Member → Option ℕ → Type 0
HaveChoice members number = (plan : Plan) (items : List Listed) → Contains members (Planned plan items) → HasChoice items number

-- The pick has the plan, and the set and the order of the item of the list that is chosen.
abbrev pub IsPickFrom : Plan → List Listed → Option ℕ → Pick → Type 0
IsPickFrom plan items number pick =
    (pick.plan.now ≡ plan) × ((item : Listed) × IsChosen items number item × (pick.set.now ≡ item.set) × (pick.order.now ≡ item.order))

-- It is the pick of the member.
abbrev pub IsPickOf : Option ℕ → Member → Pick → Type 0
IsPickOf number (Planned plan items) pick = IsPickFrom plan items number pick
IsPickOf number (Clashed clash) pick = ⊥

-- The picks are those of the members that have a plan, one for each, in order.
abbrev pub ArePicksOf : Option ℕ → List Member → List Pick → Type 0
ArePicksOf number members picks = AllZip (IsPickOf number) (filter has_plan members) picks

-- The pick of the member comes at the end, if it has a plan.
abbrev pub AddsPick : Option ℕ → Member → List Pick → List Pick → Type 0
AddsPick number member old new = (more : List Pick) × ArePicksOf number (member ∷ []) more × (new ≡ old ++ more)

-- Outcomes of one of two kinds.
use Rattle.either.specs.Either.{MatchEither}
use Rattle.either.specs.declared.Either.{Either}
use Rattle.either.specs.declared.Either.TheVariants.{Left, Right}

-- what follows for either outcome
pub on_either : {A B : Type 0} {P Q : A → Type 0} {R S : B → Type 0} (outcome : Either A B) → ((left : A) → P left → Q left)
    → ((right : B) → R right → S right) → MatchEither outcome P R → MatchEither outcome Q S
on_either (Left left) there back told = there left told
on_either (Right right) there back told = back right told

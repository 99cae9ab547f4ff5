-- What the moves of a multiset promise: `before` as a call begins, `after` as it ends.
use Rattle.std.specs.Prelude.{◌≡◌, List, Bool, ℕ, length, Option, Result, MatchResult}
use Rattle.refusals.specs.declared.Refusal.{Refusal}
use Rattle.refusals.specs.declared.Refusal.TheVariants.{NoRoom, NotLive}
use Rattle.rows.specs.declared.counted.Counted.{Counted}
use Rattle.multiset.specs.Counts.{weigh, Live, OneMore}

-- A multiset of type M: when it is in order, its entries, how many it has place for, and the relation by which a call moves it.
module _ {K M : Type 0} (same : K → K → Bool) (whole : M → Type 0) (entries : M → List (Counted K)) (places : M → ℕ) (step : M → Option K → M → Type 0) (cell : Option K) (before after : M) where
  -- one more of the cell was put in, by such a step
  pub record Added : Type 0 where
    pub kept : whole after
    pub live : Live (entries after)
    pub more : OneMore same cell (entries before) (entries after)
    pub by : step before cell after
    pub size : places after ≡ places before

  -- there is no room for the cell, which is not there
  pub record Full : Type 0 where
    pub unaltered : after ≡ before
    pub filled : length (entries before) ≡ places before
    pub absent : weigh same cell (entries before) ≡ 0

  abbrev pub Adds : Result (Unit {0}) Refusal → Type 0
  Adds result = MatchResult result (λ done. Added) (λ refusal. (refusal ≡ NoRoom) × Full)

  -- one of the cell was taken off, by such a step; its entry stays, be its count zero
  pub record Lowered : Type 0 where
    pub kept : whole after
    pub fewer : OneMore same cell (entries after) (entries before)
    pub by : step before cell after
    pub size : places after ≡ places before

  -- the cell is not there
  pub record Missing : Type 0 where
    pub unaltered : after ≡ before
    pub absent : weigh same cell (entries before) ≡ 0

  abbrev pub Lowers : Result (Unit {0}) Refusal → Type 0
  Lowers result = MatchResult result (λ done. Lowered) (λ refusal. (refusal ≡ NotLive) × Missing)

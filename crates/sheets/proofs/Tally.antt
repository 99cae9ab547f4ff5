-- How many rows so far are accepted, and how many of those are null, beside those that are still to come.
use Rattle.std.proofs.Common.{◌≡◌, ℕ, ◌+◌, ◌-◌, ◌≤◌, Bool, not, List, [], length, filter, refl, ap, arith}
use Rattle.std.proofs.lemmas.List.Filters.{length-filter_both}
use Rattle.std.proofs.lemmas.List.Sums.{length-filter, count_by-le-length}
use Rattle.sheets.specs.declared.row.Row.{Row}
use Rattle.sheets.specs.declared.row.Summary.{Summary}
use Rattle.sheets.specs.Sheets.{accepted_rows, summary_of}

-- of all rows, these are left
pub record Tally (all left : List Row) (accepted nulls : ℕ) : Type 0 where
  pub accepted_is : accepted + length (accepted_rows left) ≡ length (accepted_rows all)
  pub nulls_is : nulls + length (filter (λ r. r.null) (accepted_rows left)) ≡ length (filter (λ r. r.null) (accepted_rows all))

filter_le : (p : Row → Bool) (rows : List Row) → length (filter p rows) ≤ length rows
filter_le p rows = omega (arith, length-filter p rows, count_by-le-length p rows)

module _ (all left : List Row) (accepted nulls : ℕ) (tally : Tally all left accepted nulls) where
  pub accepted_le : accepted ≤ length all
  accepted_le = omega (arith, tally.accepted_is, filter_le (λ (r : Row). not r.filtered) all)

  pub nulls_le : nulls ≤ length all
  nulls_le = omega (arith, tally.nulls_is, filter_le (λ (r : Row). r.null) (accepted_rows all), filter_le (λ (r : Row). not r.filtered) all)

  -- accepted and filtered rows together are all rows
  pub tally_all : (modules : ℕ) → left ≡ [] → ◌≡◌ {A = Summary} (record { rows = length all; modules = modules; accepted = accepted; nulls = nulls; filtered = length all - accepted }) (summary_of modules all)
  tally_all modules none =
      let accepted_left : length (accepted_rows left) ≡ 0 = ap (λ (rows : List Row). length (accepted_rows rows)) none in
      let nulls_left : length (filter (λ (r : Row). r.null) (accepted_rows left)) ≡ 0 = ap (λ (rows : List Row). length (filter (λ (r : Row). r.null) (accepted_rows rows))) none in
      let both = length-filter_both (λ (r : Row). r.filtered) (λ r. not r.filtered) (λ _. refl) all in
      let accepted_is : accepted ≡ length (accepted_rows all) = omega (arith, tally.accepted_is) in
      let nulls_is : nulls ≡ length (filter (λ r. r.null) (accepted_rows all)) = omega (arith, tally.nulls_is) in
      let filtered_is : length all - accepted ≡ length (filter (λ r. r.filtered) all) = omega arith in
      cc

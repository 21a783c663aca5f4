-- What audit answers, over plain variables.
use Rattle.std.proofs.Common.{◌≡◌, ℕ, Bool, true, false, List, Ok, sym, ◌∙◌, ap, arith}
use Rattle.rules.specs.Outcome.{refused, given, require}
use Rattle.rules.specs.Refusals.{not_named_once}
use Rattle.rules.specs.Archive.{used_of}
use Rattle.rules.specs.Audit.{audit, records_checked}
use Rattle.rules.specs.Links.{link_places}
use Rattle.rules.proofs.Sound.{fine}
use Rattle.rules.proofs.AppendSteps.{used_within}
use Rattle.rules.proofs.AuditSteps.{audit_no_head, audit_stops, audit_ends}
use Rattle.archive.proofs.Laws.{used_some, used_few, used_fits}
use Rattle.audit.specs.Marks.{no_marks, tally, marked_once, RecordsChecked}
use Rattle.audit.proofs.Marks.{once_same}

-- where every record passes, the marks decide
pub audit_done : (archive : List ℕ) (used : ℕ) {later : List ℕ} → used_of archive ≡ given used → RecordsChecked archive used used no_marks later (Ok tt)
    → (t : Bool) → t ≡ marked_once later used → audit archive ≡ require t not_named_once
audit_done archive used {later} u checked t e =
    let w = used_within archive used u in
    audit_ends archive used u (sym checked.answers)
    ∙ ap (λ (b : Bool). require b not_named_once) (sym (e ∙ ap (λ (m : List ℕ). marked_once m used) checked.marks_are ∙ once_same archive used used (omega arith)))

module _ (archive : List ℕ) where
  pub no_archive : {n : ℕ} → refused n ≡ used_of archive → audit archive ≡ refused n
  no_archive e = audit_no_head archive _ (sym e)

  module _ {used : ℕ} (u : given used ≡ used_of archive) where
    pub bad_record : {n : ℕ} → refused n ≡ records_checked archive used used → audit archive ≡ refused n
    bad_record e = audit_stops archive used (sym u) _ (sym e)

    module _ {later : List ℕ} (passes : fine ≡ records_checked archive used used) (m : later ≡ tally archive no_marks (link_places archive used)) where
      decided : (t : Bool) → t ≡ marked_once later used → audit archive ≡ require t not_named_once
      decided t e = audit_done archive used (sym u) (record { answers = passes; marks_are = m }) t e

      pub not_all : false ≡ marked_once later used → audit archive ≡ refused not_named_once
      unfolding require
      not_all e = decided false e

      pub all_named : true ≡ marked_once later used → audit archive ≡ given tt
      unfolding require
      all_named e = decided true e

pub ruleset audits = (used_some, used_few, used_fits, no_archive, bad_record, not_all, all_named)

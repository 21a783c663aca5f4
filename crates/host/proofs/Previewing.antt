-- Preview for the operator's host, by what the append and settle gave.
use Rattle.std.proofs.Common.{◌≡◌, ℕ, List, length, sym, ◌∙◌, ap}
use Rattle.rules.specs.Outcome.{Outcome, refused, given, number_of}
use Rattle.rules.specs.Settle.{Settlement}
use Rattle.rules.specs.Host.{host_list_after, host_result_after}
use Rattle.rules.specs.Filing.{append}
use Rattle.rules.specs.Promises.{HostSettles, HostPreviews}
use Rattle.rules.proofs.Preview.{host_preview_refused, host_preview_settled}

module _ {archive : List ℕ} {owner : ℕ} {new appended : List ℕ} (p k : ℕ) (list result : List ℕ) where
  pub host_not_previewed : {n : ℕ} → append archive owner new ≡ refused n → appended ≡ archive
      → HostPreviews archive owner new p k list list result result appended n
  host_not_previewed {n} e l =
      let r = host_preview_refused archive owner new p k (length list) (length result) n e in
      record {
        answers = ap number_of (sym r);
        leaves_list = ap (λ (o : Outcome Settlement). host_list_after o list) (sym r);
        leaves_result = ap (λ (o : Outcome Settlement). host_result_after o result) (sym r);
        leaves_archive = l;
      }

  pub host_previewed : append archive owner new ≡ given appended → {later_list later_result : List ℕ} {number : ℕ}
      → HostSettles appended p k list later_list result later_result number → {later : List ℕ} → later ≡ archive
      → HostPreviews archive owner new p k list later_list result later_result later number
  host_previewed e s l =
      let r = host_preview_settled archive owner new p k (length list) (length result) appended e in
      record {
        answers = s.answers ∙ ap number_of (sym r);
        leaves_list = s.leaves_list ∙ ap (λ (o : Outcome Settlement). host_list_after o list) (sym r);
        leaves_result = s.leaves_result ∙ ap (λ (o : Outcome Settlement). host_result_after o result) (sym r);
        leaves_archive = l;
      }

-- What an id names is a document.
use Rattle.std.proofs.Common.{◌≡◌, ℕ, zero, suc, ◌+◌, ◌<◌, Bool, true, false, cond, ◌&&◌, List, [], ◌∷◌, ◌++◌, length, take, drop, get_or, Option, Some, None, refl, sym, ◌∙◌, ap, subst, arith, nat_lt, nat_le}
use Rattle.std.proofs.Common.{append_assoc, length-append, length-take}
use Rattle.std.specs.Prelude.{IsTrue, ◌==◌}
use Rattle.std.specs.List.{position_or_len, before_first, after_first}
use Rattle.std.proofs.lemmas.Bool.Decides.{Decides-eqb}
use Rattle.std.proofs.lemmas.List.{get_or-take, get_or_append_left, get_or_at, take_at, drop_at}
use Rattle.std.proofs.lemmas.List.Sums.{split_at_first, passes_at_first, fails_before_first, position_or_len_is}
use Rattle.std.proofs.lemmas.Slice.Eq.{bytes_eq-Decides}
use Rattle.std.specs.Prelude.{codes}
use Rattle.std.specs.Str.{bytes_eq}
use Rattle.std.proofs.lemmas.Option.{cond_some}
use Rattle.std.specs.Str.Parse.{digits_value}
use Rattle.std.proofs.lemmas.Bool.{and_parts, and_from, cond-true, leb-true, le-leb, ltb-true, lt-ltb}
use Rattle.attr_types.specs.Lawful.{IsDocNumber}
use Rattle.feed_reader.specs.Numerals.{is_positive_numeral, document_written}
use Rattle.feed_reader.specs.Forms.{HasNoColon, with_colon, IsIdOf}
use Rattle.feed_reader.specs.Id.{◌>>=◌, cut_at_colon, cut_some_at_colon, id_read}

bind_some : {A B : Type 0} (o : Option A) (f : A → Option B) (y : B) → (o >>= f) ≡ Some y → (x : A) × (o ≡ Some x) × (f x ≡ Some y)
bind_some None f y e = cc
bind_some (Some x) f y e = (x, refl, e)

written_document : (text : List ℕ) (doc : ℕ) → document_written text ≡ Some doc → IsDocNumber doc
unfolding document_written
written_document text doc e =
    let n = digits_value 10 text in
    let p = cond_some (is_positive_numeral text && (nat_le 1 n && nat_le n 1048575)) n doc e in
    let bounds = and_parts (nat_le 1 n) (nat_le n 1048575) (and_parts (is_positive_numeral text) (nat_le 1 n && nat_le n 1048575) p.0).1 in
    subst IsDocNumber p.1 (leb-true 1 n bounds.0, leb-true n 1048575 bounds.1)

pub named_document : (text : List ℕ) (doc : ℕ) → id_read text ≡ Some doc → IsDocNumber doc
unfolding id_read
named_document text doc e =
    let last = λ (parts : List ℕ × List ℕ). document_written parts.1 in
    let type = λ (parts : List ℕ × List ℕ). cut_at_colon parts.1 >>= last in
    let namespace = λ (parts : List ℕ × List ℕ). cut_some_at_colon parts.1 >>= type in
    let scheme = λ (parts : List ℕ × List ℕ). cond (bytes_eq parts.0 (codes "id")) (cut_some_at_colon parts.1) None >>= namespace in
    let a = bind_some (cut_at_colon text) scheme doc e in
    let b = bind_some (cond (bytes_eq a.0.0 (codes "id")) (cut_some_at_colon a.0.1) None) namespace doc a.2 in
    let c = bind_some (cut_some_at_colon b.0.1) type doc b.2 in
    let d = bind_some (cut_at_colon c.0.1) last doc c.2 in
    written_document d.0.1 doc d.2

-- ---- an id is what is read of it

abbrev is_colon : ℕ → Bool
is_colon b = b == 58

before_no_colon : (text : List ℕ) → HasNoColon (before_first is_colon text)
before_no_colon text k d short is =
    let n = position_or_len is_colon text in
    let below : k < n = omega (arith, length-take n text) in
    let fails = fails_before_first is_colon text k d below in
    let here : get_or text k d ≡ 58 = sym (get_or-take n text k d below) ∙ is in
    let passes = (Decides-eqb (get_or text k d) 58).1 here in
    cc

-- what is cut at the first colon
pub cut_parts : (text : List ℕ) (p : List ℕ × List ℕ) → cut_at_colon text ≡ Some p → (text ≡ with_colon p.0 p.1) × HasNoColon p.0
cut_parts text p e =
    let at = cond_some (nat_lt (position_or_len is_colon text) (length text)) (before_first is_colon text, after_first is_colon text) p e in
    let within = ltb-true (position_or_len is_colon text) (length text) at.0 in
    let colon : get_or text (position_or_len is_colon text) 0 ≡ 58 = (Decides-eqb (get_or text (position_or_len is_colon text) 0) 58).0 (passes_at_first is_colon text 0 within) in
    let whole : text ≡ with_colon (before_first is_colon text) (after_first is_colon text) = split_at_first is_colon text 0 within ∙ ap (λ (b : ℕ). before_first is_colon text ++ (b ∷ after_first is_colon text)) colon in
    subst (λ (p : List ℕ × List ℕ). (text ≡ with_colon p.0 p.1) × HasNoColon p.0) at.1 (whole, before_no_colon text)

no_colon_at : (a b : List ℕ) (k : ℕ) → k < length a → HasNoColon a → is_colon (get_or (with_colon a b) k 0) ≡ false
no_colon_at a b k below none = at (is_colon (get_or (with_colon a b) k 0)) refl where
  at : (c : Bool) → is_colon (get_or (with_colon a b) k 0) ≡ c → c ≡ false
  at false e = refl
  at true e = absurd (none k 0 below (sym (get_or_append_left a (58 ∷ b) 0 k below) ∙ (Decides-eqb (get_or (with_colon a b) k 0) 58).0 e))

pub cut_of : (a b : List ℕ) → HasNoColon a → cut_at_colon (with_colon a b) ≡ Some (a, b)
cut_of a b none =
    let text = with_colon a b in
    let long : length text ≡ length a + length (58 ∷ b) = length-append a (58 ∷ b) in
    let within : length a < length text = omega (arith, long) in
    let fails = λ (k : ℕ) (below : k < length a). no_colon_at a b k below none in
    let passes = λ (h : length a < length text). (Decides-eqb (get_or text (length a) 0) 58).1 (get_or_at a 58 b 0 (length a) refl) in
    let place : position_or_len is_colon text ≡ length a = position_or_len_is is_colon text (length a) 0 (omega arith) fails passes in
    let front : take (length a) text ≡ a = take_at a (58 ∷ b) (length a) refl in
    let size : length (a ++ (58 ∷ [])) ≡ length a + 1 = length-append a (58 ∷ []) in
    let back : drop (length a + 1) text ≡ b = ap (drop (length a + 1)) (sym (append_assoc a (58 ∷ []) b)) ∙ drop_at (a ++ (58 ∷ [])) b (length a + 1) size in
    let test : nat_lt (length a) (length text) ≡ true = lt-ltb (length a) (length text) within in
    rw place (rw (test, front, back) refl)

pub cut_some_parts : (text : List ℕ) (p : List ℕ × List ℕ) → cut_some_at_colon text ≡ Some p → (text ≡ with_colon p.0 p.1) × HasNoColon p.0 × (0 < length p.0)
cut_some_parts text p e =
    let parts = bind_some (cut_at_colon text) (λ (q : List ℕ × List ℕ). cond (nat_lt 0 (length q.0)) (Some q) None) p e in
    let some = cond_some (nat_lt 0 (length parts.0.0)) parts.0 p parts.2 in
    let cut = cut_parts text parts.0 parts.1 in
    subst (λ (q : List ℕ × List ℕ). (text ≡ with_colon q.0 q.1) × HasNoColon q.0 × (0 < length q.0)) some.1 (cut.0, cut.1, ltb-true 0 (length parts.0.0) some.0)

cut_some_of : (a b : List ℕ) → HasNoColon a → 0 < length a → cut_some_at_colon (with_colon a b) ≡ Some (a, b)
cut_some_of a b none there = ap (λ (o : Option (List ℕ × List ℕ)). o >>= λ (q : List ℕ × List ℕ). cond (nat_lt 0 (length q.0)) (Some q) None) (cut_of a b none)
    ∙ cond-true (nat_lt 0 (length a)) (Some (a, b)) None (lt-ltb 0 (length a) there)

digits_parts : (text : List ℕ) (doc : ℕ) → document_written text ≡ Some doc → IsTrue (is_positive_numeral text) × (digits_value 10 text ≡ doc)
unfolding document_written
digits_parts text doc e =
    let n = digits_value 10 text in
    let p = cond_some (is_positive_numeral text && (nat_le 1 n && nat_le n 1048575)) n doc e in
    ((and_parts (is_positive_numeral text) (nat_le 1 n && nat_le n 1048575) p.0).0, p.1)

digits_of : (text : List ℕ) (doc : ℕ) → IsTrue (is_positive_numeral text) → digits_value 10 text ≡ doc → IsDocNumber doc → document_written text ≡ Some doc
unfolding document_written
digits_of text doc decimal value there =
    let n = digits_value 10 text in
    let low : nat_le 1 n ≡ true = rw value (le-leb 1 doc there.0) in
    let high : nat_le n 1048575 ≡ true = rw value (le-leb doc 1048575 there.1) in
    let all : (is_positive_numeral text && (nat_le 1 n && nat_le n 1048575)) ≡ true = and_from (is_positive_numeral text) (nat_le 1 n && nat_le n 1048575) decimal (and_from (nat_le 1 n) (nat_le n 1048575) low high) in
    cond-true (is_positive_numeral text && (nat_le 1 n && nat_le n 1048575)) (Some n) None all ∙ ap Some value

-- the rest of an id after its scheme
abbrev after_type : List ℕ × List ℕ → Option ℕ
after_type parts = cut_at_colon parts.1 >>= λ (q : List ℕ × List ℕ). document_written q.1

abbrev after_namespace : List ℕ × List ℕ → Option ℕ
after_namespace parts = cut_some_at_colon parts.1 >>= after_type

abbrev after_scheme : List ℕ × List ℕ → Option ℕ
after_scheme parts = cond (bytes_eq parts.0 (codes "id")) (cut_some_at_colon parts.1) None >>= after_namespace

scheme_no_colon : HasNoColon (codes "id")
scheme_no_colon zero d below is = absurd (omega arith)
scheme_no_colon (suc zero) d below is = absurd (omega arith)
scheme_no_colon (suc (suc k)) d below is = absurd (omega arith)

if_then : {A : Type 0} (b : Bool) (o : Option A) (x : A) → cond b o None ≡ Some x → (b ≡ true) × (o ≡ Some x)
if_then true o x e = (refl, e)
if_then false o x e = cc

pub id_of_form : (text : List ℕ) (doc : ℕ) → IsIdOf text doc → id_read text ≡ Some doc
unfolding id_read
id_of_form text doc id =
    let no_scheme_colon = cut_of (codes "id") (with_colon id.namespace (with_colon id.type (with_colon id.part id.digits))) scheme_no_colon in
    ap (λ (t : List ℕ). cut_at_colon t >>= after_scheme) id.whole
    ∙ ap (λ (o : Option (List ℕ × List ℕ)). o >>= after_scheme) no_scheme_colon
    ∙ ap (λ (b : Bool). cond b (cut_some_at_colon (with_colon id.namespace (with_colon id.type (with_colon id.part id.digits)))) None >>= after_namespace) ((bytes_eq-Decides (codes "id") (codes "id")).1 refl)
    ∙ ap (λ (o : Option (List ℕ × List ℕ)). o >>= after_namespace) (cut_some_of id.namespace (with_colon id.type (with_colon id.part id.digits)) id.no_colons.0 id.namespace_there)
    ∙ ap (λ (o : Option (List ℕ × List ℕ)). o >>= after_type) (cut_some_of id.type (with_colon id.part id.digits) id.no_colons.1.0 id.type_there)
    ∙ ap (λ (o : Option (List ℕ × List ℕ)). o >>= λ (q : List ℕ × List ℕ). document_written q.1) (cut_of id.part id.digits id.no_colons.1.1)
    ∙ digits_of id.digits doc id.decimal id.document id.there

pub form_of_id : (text : List ℕ) (doc : ℕ) → id_read text ≡ Some doc → IsIdOf text doc
unfolding id_read
form_of_id text doc e =
    let a = bind_some (cut_at_colon text) after_scheme doc e in
    let b = bind_some (cond (bytes_eq a.0.0 (codes "id")) (cut_some_at_colon a.0.1) None) after_namespace doc a.2 in
    let scheme = if_then (bytes_eq a.0.0 (codes "id")) (cut_some_at_colon a.0.1) b.0 b.1 in
    let c = bind_some (cut_some_at_colon b.0.1) after_type doc b.2 in
    let d = bind_some (cut_at_colon c.0.1) (λ (q : List ℕ × List ℕ). document_written q.1) doc c.2 in
    let first = cut_parts text a.0 a.1 in
    let second = cut_some_parts a.0.1 b.0 scheme.1 in
    let third = cut_some_parts b.0.1 c.0 c.1 in
    let fourth = cut_parts c.0.1 d.0 d.1 in
    let number = digits_parts d.0.1 doc d.2 in
    let is_id : a.0.0 ≡ codes "id" = (bytes_eq-Decides a.0.0 (codes "id")).0 scheme.0 in
    record {
      namespace = b.0.0;
      type = c.0.0;
      part = d.0.0;
      digits = d.0.1;
      whole = first.0 ∙ ap (λ (t : List ℕ). with_colon t a.0.1) is_id
          ∙ ap (λ (t : List ℕ). with_colon (codes "id") t) (second.0 ∙ ap (λ (t : List ℕ). with_colon b.0.0 t) (third.0 ∙ ap (λ (t : List ℕ). with_colon c.0.0 t) fourth.0));
      namespace_there = second.2;
      type_there = third.2;
      no_colons = (second.1, (third.1, fourth.1));
      decimal = number.0;
      document = number.1;
      there = written_document d.0.1 doc d.2;
    }

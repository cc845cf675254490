-- The lists of events of the examples happen: each condition holds by computation.
use Rattle.entry_ref.specs.Images.{no_image}
use Rattle.entry_ref.specs.References.{packed}
use Rattle.std.proofs.Common.{◌≡◌, ◌≢◌, ℕ, suc, ◌+◌, List, [], ◌∷◌, length, Bool, true, false, eqb, refl, sym, ◌∙◌, eq-eqb, true≢false, inl, inr}
use Rattle.std.specs.Prelude.{All, nat_eq, nat_lt, nat_le, ◌||◌}
use Rattle.std.specs.List.{list_any}
use Rattle.std.proofs.lemmas.Bool.{ltb-true, leb-true}
use Rattle.std.proofs.lemmas.List.Elements.{All-nil, All-cons}
use Rattle.gen_core.specs.Views.{open_holds, last_number}
use Rattle.gen_core.specs.Examples.{one_lawful, Ends, hold_sizes, missed_events, missed_end, renewed_events, renewed_end, closed_events, closed_end, kept_events, kept_end, reopened_events, reopened_end, buffer_sizes, again_events, again_end}
use Rattle.gen_core.specs.Examples.{stored_events, stored_end}
use Rattle.gen_core.specs.Conditions.{MayPublish, MayReopen, MayProbe, MaySplit}
use Rattle.gen_core.specs.Good.{Avoids}
use Rattle.gen_core.specs.Work.{run_at, is_entry}
use Rattle.gen_core.proofs.StoredWords.{p}
use Rattle.gen_core.specs.declared.views.Sizes.{Sizes}
use Rattle.gen_core.specs.declared.views.OpenHold.{OpenHold}
use Rattle.gen_core.specs.declared.views.WriterView.{WriterView}
use Rattle.gen_core.specs.declared.views.Pending.TheVariants.{Nothing}

-- no hold of a list is this one, by a test
others : (es : List OpenHold) (h : ℕ) → list_any (λ e. nat_eq e.hold h) es ≡ false → All (λ e. e.hold ≢ h) es
others [] h none = All-nil (λ e. e.hold ≢ h)
others (e ∷ es) h none = All-cons (λ x. x.hold ≢ h) e es (λ same. true≢false (sym (left _ _ (eq-eqb e.hold h same)) ∙ none)) (others es h (right (nat_eq e.hold h) _ none))
  where
    left : (a b : Bool) → a ≡ true → (a || b) ≡ true
    left true b is = refl
    left false b is = absurd (true≢false (sym is))

    right : (a b : Bool) → (a || b) ≡ false → b ≡ false
    right true b is = absurd (true≢false is)
    right false b is = is

nonzero : (n : ℕ) → eqb n 0 ≡ false → n ≢ 0
nonzero n is same = true≢false (sym (eq-eqb n 0 same) ∙ is)

may_split : (w : WriterView) → w.queue.pending ≡ Nothing → nat_lt w.made 64 ≡ true → MaySplit w
may_split w calm few = record { calm = calm; few = ltb-true _ _ few }

may_publish : (w : WriterView) → w.queue.pending ≡ Nothing → nat_lt (last_number w.commits) w.sizes.commit_limit ≡ true → MayPublish one_lawful w 0
may_publish w calm left = record { calm = calm; lawful_root = tt; small = ltb-true _ _ refl; left = ltb-true _ _ left }

may_probe : (w : WriterView) → w.queue.pending ≡ Nothing → nat_le (w.queue.newest.generation + 1) w.sizes.generation_limit ≡ true → MayProbe w
may_probe w calm left = record { calm = calm; left = leb-true _ _ left }

may_reopen : (w : WriterView) (h : ℕ) → w.queue.pending ≡ Nothing → nat_lt h 16 ≡ true → list_any (λ e. nat_eq e.hold h) (open_holds w.queue) ≡ false
    → nat_lt (suc (length w.queue.older)) 16 ≡ true → nat_le (w.queue.newest.generation + 1) w.sizes.generation_limit ≡ true → MayReopen w h
may_reopen w h calm hold other room left =
    record { calm = calm; hold = ltb-true _ _ hold; others = others (open_holds w.queue) h other; room = ltb-true _ _ room; left = leb-true _ _ left }

-- the empty image has no word anywhere
empty-avoids : (sizes : Sizes) (p : ℕ) → All (Avoids sizes p) (no_image ∷ [])
empty-avoids sizes p = All-cons (Avoids sizes p) no_image [] (record { records = All-nil _ }) (All-nil (Avoids sizes p))

pub missed : Ends hold_sizes missed_events missed_end
missed = (
  _,
  (may_split _ refl refl, refl),
  (
    _,
    (_, refl, refl, refl),
    (
      _,
      (may_publish _ refl refl, refl),
      (
        _,
        (may_reopen _ _ refl refl refl refl refl, refl),
        (
          _,
          (_, refl, refl),
          (
            _,
            (_, _, record { calm = refl; is = refl }, refl, refl),
            (
              _,
              (_, refl, _, _, refl, refl),
              (
                _,
                (_, refl, _, refl, refl),
                (
                  _,
                  (_, refl, refl, refl),
                  (
                    _,
                    (may_publish _ refl refl, refl),
                    (
                      _,
                      (may_reopen _ _ refl refl refl refl refl, refl),
                      (
                        _,
                        (_, refl, refl),
                        (
                          _,
                          (_, _, record { calm = refl; is = refl }, refl, refl),
                          (
                            _,
                            (may_publish _ refl refl, refl),
                            (
                              _,
                              (may_reopen _ _ refl refl refl refl refl, refl),
                              (
                                _,
                                (_, refl, refl),
                                (
                                  _,
                                  (_, _, record { calm = refl; is = refl }, refl, refl),
                                  (
                                    _,
                                    (_, refl, _, _, refl, refl),
                                    (
                                      _,
                                      (_, refl, _, refl, refl),
                                      refl,
                                    ),
                                  ),
                                ),
                              ),
                            ),
                          ),
                        ),
                      ),
                    ),
                  ),
                ),
              ),
            ),
          ),
        ),
      ),
    ),
  ),
)

pub renewed : Ends hold_sizes renewed_events renewed_end
renewed = (
  _,
  (may_split _ refl refl, refl),
  (
    _,
    (_, refl, refl, refl),
    (
      _,
      (may_publish _ refl refl, refl),
      (
        _,
        (may_probe _ refl refl, refl, refl),
        (
          _,
          (refl, refl),
          (
            _,
            (_, refl, _, _, refl, refl),
            (
              _,
              (_, refl, _, refl, refl),
              refl,
            ),
          ),
        ),
      ),
    ),
  ),
)

pub closed : Ends hold_sizes closed_events closed_end
closed = (
  _,
  (may_split _ refl refl, refl),
  (
    _,
    (may_split _ refl refl, refl),
    (
      _,
      (_, refl, refl, refl),
      (
        _,
        (_, refl, _, _, refl, refl),
        (
          _,
          (_, refl, _, refl, refl),
          (
            _,
            (_, refl, refl, refl),
            (
              _,
              (may_publish _ refl refl, refl),
              (
                _,
                (may_probe _ refl refl, nonzero _ refl, refl),
                (
                  _,
                  (may_reopen _ _ refl refl refl refl refl, refl),
                  (
                    _,
                    (_, refl, refl),
                    (
                      _,
                      (_, _, record { calm = refl; is = refl }, nonzero _ refl, refl),
                      (
                        _,
                        (_, refl, _, _, refl, refl),
                        (
                          _,
                          (may_publish _ refl refl, refl),
                          (
                            _,
                            (may_probe _ refl refl, refl, refl),
                            (
                              _,
                              (refl, refl),
                              (
                                _,
                                (_, _, record { calm = refl; is = refl }, refl, refl),
                                (
                                  _,
                                  (_, refl, _, _, refl, refl),
                                  (
                                    _,
                                    (_, refl, _, refl, refl),
                                    refl,
                                  ),
                                ),
                              ),
                            ),
                          ),
                        ),
                      ),
                    ),
                  ),
                ),
              ),
            ),
          ),
        ),
      ),
    ),
  ),
)

pub reopened : Ends hold_sizes reopened_events reopened_end
reopened = (
  _,
  (may_split _ refl refl, refl),
  (
    _,
    (may_split _ refl refl, refl),
    (
      _,
      (_, refl, refl, refl),
      (
        _,
        (_, refl, _, _, refl, refl),
        (
          _,
          (_, refl, _, refl, refl),
          (
            _,
            (_, refl, refl, refl),
            (
              _,
              (may_publish _ refl refl, refl),
              (
                _,
                (may_probe _ refl refl, nonzero _ refl, refl),
                (
                  _,
                  (may_reopen _ _ refl refl refl refl refl, refl),
                  (
                    _,
                    (_, refl, refl),
                    (
                      _,
                      (_, _, record { calm = refl; is = refl }, nonzero _ refl, refl),
                      (
                        _,
                        (_, refl, _, _, refl, refl),
                        (
                          _,
                          (may_publish _ refl refl, refl),
                          (
                            _,
                            (may_probe _ refl refl, refl, refl),
                            (
                              _,
                              (refl, refl),
                              (
                                _,
                                (_, _, record { calm = refl; is = refl }, refl, refl),
                                (
                                  _,
                                  (_, refl, _, _, refl, refl),
                                  (
                                    _,
                                    (_, refl, _, refl, refl),
                                    (
                                      _,
                                      (_, refl, refl, refl),
                                      (
                                        _,
                                        (_, refl, refl, refl),
                                        (
                                          _,
                                          (_, refl, _, _, refl, refl),
                                          (
                                            _,
                                            (_, refl, _, refl, refl),
                                            (
                                              _,
                                              (may_publish _ refl refl, refl),
                                              (
                                                _,
                                                (may_probe _ refl refl, nonzero _ refl, refl),
                                                (
                                                  _,
                                                  (may_reopen _ _ refl refl refl refl refl, refl),
                                                  (
                                                    _,
                                                    (_, refl, refl),
                                                    (
                                                      _,
                                                      (_, _, record { calm = refl; is = refl }, nonzero _ refl, refl),
                                                      (
                                                        _,
                                                        (_, refl, _, _, refl, refl),
                                                        (
                                                          _,
                                                          (may_publish _ refl refl, refl),
                                                          (
                                                            _,
                                                            (may_probe _ refl refl, refl, refl),
                                                            (
                                                              _,
                                                              (refl, refl),
                                                              (
                                                                _,
                                                                (_, _, record { calm = refl; is = refl }, refl, refl),
                                                                (
                                                                  _,
                                                                  (may_split _ refl refl, refl),
                                                                  (
                                                                    _,
                                                                    (_, refl, refl, refl),
                                                                    (
                                                                      _,
                                                                      (_, refl, _, _, refl, refl),
                                                                      (
                                                                        _,
                                                                        (_, refl, _, refl, refl),
                                                                        (
                                                                          _,
                                                                          (may_publish _ refl refl, refl),
                                                                          (
                                                                            _,
                                                                            (may_probe _ refl refl, nonzero _ refl, refl),
                                                                            (
                                                                              _,
                                                                              (may_reopen _ _ refl refl refl refl refl, refl),
                                                                              (
                                                                                _,
                                                                                (_, refl, refl),
                                                                                (
                                                                                  _,
                                                                                  (_, _, record { calm = refl; is = refl }, nonzero _ refl, refl),
                                                                                  (
                                                                                    _,
                                                                                    (_, refl, _, _, refl, refl),
                                                                                    (
                                                                                      _,
                                                                                      (_, refl, _, refl, refl),
                                                                                      refl,
                                                                                    ),
                                                                                  ),
                                                                                ),
                                                                              ),
                                                                            ),
                                                                          ),
                                                                        ),
                                                                      ),
                                                                    ),
                                                                  ),
                                                                ),
                                                              ),
                                                            ),
                                                          ),
                                                        ),
                                                      ),
                                                    ),
                                                  ),
                                                ),
                                              ),
                                            ),
                                          ),
                                        ),
                                      ),
                                    ),
                                  ),
                                ),
                              ),
                            ),
                          ),
                        ),
                      ),
                    ),
                  ),
                ),
              ),
            ),
          ),
        ),
      ),
    ),
  ),
)

pub again : Ends (buffer_sizes 22) again_events again_end
again = (
  _,
  (record { calm = refl; tag = _; free = refl }, refl),
  (
    _,
    (record { calm = refl; none_yet = refl; some = ltb-true _ _ refl }, refl),
    (
      _,
      (may_publish _ refl refl, refl),
      (
        _,
        (may_split _ refl refl, refl),
        (
          _,
          (_, refl, refl, refl),
          (
            _,
            (_, refl, _, _, refl, refl),
            (
              _,
              (_, refl, _, refl, refl),
              (
                _,
                (_, record { calm = refl; active = refl; unused = All-nil _; idle = λ p n x there lt same. absurd (cc) }, refl),
                (
                  _,
                  (may_probe _ refl refl, nonzero _ refl, refl),
                  (
                    _,
                    (may_reopen _ _ refl refl refl refl refl, refl),
                    (
                      _,
                      (_, refl, refl),
                      (
                        _,
                        (_, _, record { calm = refl; is = refl }, nonzero _ refl, refl),
                        (
                          _,
                          (record { calm = refl; tag = _; free = refl }, refl),
                          (
                            _,
                            (record { calm = refl; none_yet = refl; some = ltb-true _ _ refl }, refl),
                            (
                              _,
                              (_, refl, _, _, refl, refl),
                              (
                                _,
                                (_, _, record { calm = refl; is = refl }, refl, refl),
                                (
                                  _,
                                  (_, record { calm = refl; width = _; held = refl; below = ltb-true _ _ refl }, refl),
                                  (
                                    _,
                                    (record { calm = refl; tag = _; free = refl }, refl),
                                    (
                                      _,
                                      (record { calm = refl; none_yet = refl; some = ltb-true _ _ refl }, refl),
                                      refl,
                                    ),
                                  ),
                                ),
                              ),
                            ),
                          ),
                        ),
                      ),
                    ),
                  ),
                ),
              ),
            ),
          ),
        ),
      ),
    ),
  ),
)

pub stored : Ends (buffer_sizes 22) (stored_events 22) (stored_end 22)
unfolding run_at is_entry
stored = (
  _,
  (may_split _ refl refl, refl),
  (
    _,
    (record { calm = refl; tag = _; free = refl }, refl),
    (
      _,
      (record { calm = refl; none_yet = refl; some = ltb-true _ _ refl }, refl),
      (
        _,
        (record { calm = refl; active = record { b = 0; width = 2; x = 2; active = refl; some = ltb-true _ _ refl; behind = ltb-true _ _ refl; inside = ltb-true _ _ refl; is = refl }; apart = empty-avoids _ _ }, refl),
        (
          _,
          (record { calm = refl; active = record { b = 0; width = 2; x = 3; active = refl; some = ltb-true _ _ refl; behind = ltb-true _ _ refl; inside = ltb-true _ _ refl; is = refl }; apart = empty-avoids _ _ }, refl),
          (
            _,
            (record { calm = refl; lawful_root = ltb-true _ _ refl; small = ltb-true _ _ refl; left = ltb-true _ _ refl }, refl),
            (
              _,
              (_, refl, refl, refl),
              (
                _,
                (_, refl, _, _, refl, refl),
                (
                  _,
                  (_, refl, _, refl, refl),
                  (
                    _,
                    (_, refl, record { number = _; image = _; under = record { hold = _; guarded = refl; seen = refl }; word = (packed 22 1 0, _, refl, inr refl) }, refl),
                    (
                      _,
                      (_, refl, record { number = _; image = _; under = record { hold = _; guarded = refl; seen = refl }; word = (packed 22 1 0, _, refl, inl (1, ltb-true _ _ refl, refl)) }, refl),
                      (
                        _,
                        (_, refl, _, _, refl, refl),
                        (
                          _,
                          (_, refl, record { calm = refl; idle = refl }, refl),
                          (
                            _,
                            (refl, refl),
                            refl,
                          ),
                        ),
                      ),
                    ),
                  ),
                ),
              ),
            ),
          ),
        ),
      ),
    ),
  ),
)

pub stored_narrow : Ends (buffer_sizes 19) (stored_events 19) (stored_end 19)
unfolding run_at is_entry
stored_narrow = (
  _,
  (may_split _ refl refl, refl),
  (
    _,
    (record { calm = refl; tag = _; free = refl }, refl),
    (
      _,
      (record { calm = refl; none_yet = refl; some = ltb-true _ _ refl }, refl),
      (
        _,
        (record { calm = refl; active = record { b = 0; width = 2; x = 2; active = refl; some = ltb-true _ _ refl; behind = ltb-true _ _ refl; inside = ltb-true _ _ refl; is = refl }; apart = empty-avoids _ _ }, refl),
        (
          _,
          (record { calm = refl; active = record { b = 0; width = 2; x = 3; active = refl; some = ltb-true _ _ refl; behind = ltb-true _ _ refl; inside = ltb-true _ _ refl; is = refl }; apart = empty-avoids _ _ }, refl),
          (
            _,
            (record { calm = refl; lawful_root = ltb-true _ _ refl; small = ltb-true _ _ refl; left = ltb-true _ _ refl }, refl),
            (
              _,
              (_, refl, refl, refl),
              (
                _,
                (_, refl, _, _, refl, refl),
                (
                  _,
                  (_, refl, _, refl, refl),
                  (
                    _,
                    (_, refl, record { number = _; image = _; under = record { hold = _; guarded = refl; seen = refl }; word = (packed 19 1 0, _, refl, inr refl) }, refl),
                    (
                      _,
                      (_, refl, record { number = _; image = _; under = record { hold = _; guarded = refl; seen = refl }; word = (packed 19 1 0, _, refl, inl (1, ltb-true _ _ refl, refl)) }, refl),
                      (
                        _,
                        (_, refl, _, _, refl, refl),
                        (
                          _,
                          (_, refl, record { calm = refl; idle = refl }, refl),
                          (
                            _,
                            (refl, refl),
                            refl,
                          ),
                        ),
                      ),
                    ),
                  ),
                ),
              ),
            ),
          ),
        ),
      ),
    ),
  ),
)

pub kept : Ends hold_sizes kept_events kept_end
kept = (
  _,
  (may_split _ refl refl, refl),
  (
    _,
    (_, refl, refl, refl),
    (
      _,
      (_, refl, _, _, refl, refl),
      (
        _,
        (_, refl, _, refl, refl),
        (
          _,
          (may_publish _ refl refl, refl),
          (
            _,
            (may_probe _ refl refl, nonzero _ refl, refl),
            (
              _,
              (may_reopen _ _ refl refl refl refl refl, refl),
              (
                _,
                (_, refl, refl),
                (
                  _,
                  (_, _, record { calm = refl; is = refl }, nonzero _ refl, refl),
                  (
                    _,
                    (_, refl, _, refl, refl),
                    (
                      _,
                      (_, refl, _, _, refl, refl),
                      (
                        _,
                        (_, _, record { calm = refl; is = refl }, refl, refl),
                        refl,
                      ),
                    ),
                  ),
                ),
              ),
            ),
          ),
        ),
      ),
    ),
  ),
)

use Rattle.std.proofs.Common.{◌≡◌, ℕ, ◌+◌, ◌-◌, ◌*◌, [], ◌++◌, codes, append_assoc}
use Rattle.std.specs.Fmt.{decimal}
use Rattle.demo_plants.specs.Demo.{demo_text}
use Rattle.demo_plants.proofs.plant.demo_text.Goals as goal

pushed : (n : ℕ) →
    [] ++ codes "plant 1\nstate p 0 " ++ decimal (600 * n - 1)
    ++ codes " 10\nstate v -100 99 10\ninput a -20 -15 0 15 20\n"
    ++ codes "noise w -2 2\nnext p = p + v / 5\nnext v = v + a + w\n"
    ++ codes "target " ++ decimal (400 * n) ++ codes " " ++ decimal (560 * n - 1) ++ codes " -50 49\n"
    ++ codes "obstacle " ++ decimal (200 * n) ++ codes " " ++ decimal (200 * n + 19) ++ codes " 80 99\n"
    ++ codes "obstacle " ++ decimal (300 * n) ++ codes " " ++ decimal (300 * n + 9) ++ codes " -100 -81\n"
    ++ codes "goal reach\nend\n"
    ≡ demo_text n
unfolding demo_text
pushed n = simp append_assoc

pub returns : goal.returns
returns c =
    rw (c.in_ok-extend_from_slice-3.ensures.items, c.in_ok-push_box-3.ensures, c.in_ok-push_box-2.ensures, c.in_ok-push_box.ensures, c.in_ok-extend_from_slice-2.ensures.items, c.in_ok-extend_from_slice.ensures.items, c.in_ok-push_part.ensures, c.new-text.ensures.items)
    (pushed c.args.n)
